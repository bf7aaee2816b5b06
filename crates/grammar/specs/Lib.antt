pub mod Faults
pub mod Grammar
pub mod Listings
pub mod Reads
pub mod Texts
