pub mod Performing
pub mod Places
pub mod Puts
