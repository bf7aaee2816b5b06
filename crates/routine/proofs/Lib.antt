pub mod Noting
pub mod Storing
pub mod Reading
pub mod Thinning
