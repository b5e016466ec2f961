pub mod Spelled
pub mod Rising
pub mod Spellings
