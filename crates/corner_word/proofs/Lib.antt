pub mod Multiples
pub mod Ranks
pub mod Corners
