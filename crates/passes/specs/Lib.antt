pub mod Arrivals
pub mod Local
pub mod Marked
pub mod Passes
