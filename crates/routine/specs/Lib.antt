pub mod Addresses
pub mod Drafts
pub mod Fresh
pub mod Joins
pub mod Parties
pub mod Routines
pub mod Storages
pub mod Thins
