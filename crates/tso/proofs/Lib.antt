pub mod Addresses
pub mod Restriction
pub mod Turns
pub mod Published
pub mod Locking
pub mod Changing
pub mod Refusing
pub mod Worked
