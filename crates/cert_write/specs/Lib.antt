pub mod Writes
pub mod Claim
pub mod Parts
