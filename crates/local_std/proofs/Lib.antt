pub mod Rings
mod Settled
pub mod Prefixes
pub mod Blocks
pub mod Ends
pub mod Inputs
pub mod Checks
pub mod Dues
pub mod OneText
mod Lines
mod Readings
mod Pieces
mod BenchScripts
mod Benches
mod Certified
pub mod Accepted
pub mod Certificates
pub mod Existence
pub mod Progress
