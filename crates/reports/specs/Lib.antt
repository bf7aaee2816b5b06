pub mod Faults
pub mod Fates
pub mod Fences
