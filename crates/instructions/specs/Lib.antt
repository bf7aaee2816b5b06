pub mod Arguments
pub mod Faults
pub mod Keywords
pub mod Lines
pub mod Texts
pub mod Thinning
