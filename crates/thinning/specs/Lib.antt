pub mod Faults
pub mod Pairs
pub mod Calls
pub mod Comparing
pub mod Promises
pub mod Examples
pub mod Truths
