pub mod Examples
pub mod Marks
pub mod Paths
pub mod Rules
