pub mod Copied
pub mod Applied
pub mod Arriving
pub mod Exposing
pub mod Leading
pub mod Lawful
pub mod Ways
