pub mod Faults
pub mod Lines
pub mod Pages
pub mod Prints
