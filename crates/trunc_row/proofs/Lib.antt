pub mod Residues
pub mod Walks
pub mod Multiples
mod Runs
pub mod Polynomials
pub mod Store
pub mod TermRows
mod Writing
pub mod Cuts
pub mod RowPolynomials
pub mod TermMultiples
pub mod Vectors
pub mod Shifts
