pub mod Faults
pub mod Machine
pub mod Openings
pub mod Traces
pub mod Outcomes
pub mod Tso
pub mod Entries
pub mod Examples
