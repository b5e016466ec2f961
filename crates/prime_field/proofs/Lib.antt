pub mod Primality
pub mod Residue
pub mod Coprime
pub mod Inverse
pub mod Numerals
