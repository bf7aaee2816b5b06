pub mod Figures
pub mod Cuts
pub mod Digits
pub mod Answered
pub mod Counting
pub mod Fields
pub mod Spaces
