pub mod Sound
pub mod NamesView
pub mod Gives
pub mod ReadsValue
pub mod Constant
pub mod Generators
