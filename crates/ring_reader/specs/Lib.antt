pub mod RingView
pub mod Capped
pub mod Effects
pub mod After
pub mod Parts
pub mod Behind
pub mod Answers
pub mod Coherent
