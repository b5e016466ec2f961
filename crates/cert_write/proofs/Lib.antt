pub mod Steps
pub mod Writing
pub mod Stopping
pub mod Parts
