pub mod Variables
pub mod Monomials
pub mod Remarks
pub mod Statements
pub mod Scripts
pub mod Parts
pub mod Asked
pub mod Degrees
