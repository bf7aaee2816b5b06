pub mod Fetching
pub mod Laid
