pub mod Ranks
pub mod Vector
pub mod Combination
pub mod Division
pub mod Ideal
pub mod Rows
