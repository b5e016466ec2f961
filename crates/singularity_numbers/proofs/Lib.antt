pub mod Generators
pub mod Limits
