pub mod Accesses
pub mod Answers
pub mod Cells
pub mod Dense
pub mod Pairs
pub mod Sparse
