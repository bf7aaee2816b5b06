pub mod Decided
pub mod Fetches
pub mod Standing
pub mod Roads
pub mod Marked
pub mod Near
pub mod Worked
