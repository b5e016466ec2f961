pub mod Rows
pub mod Cubics
