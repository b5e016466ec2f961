pub mod Mono
pub mod Order
pub mod Stored
pub mod Count
pub mod Shape
pub mod Limits
