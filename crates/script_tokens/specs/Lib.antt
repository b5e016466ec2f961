pub mod TokenView
pub mod PlaceView
pub mod Reads
