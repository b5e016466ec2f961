pub mod WordsLeft
pub mod Cuts
pub mod Gives
pub mod Answers
pub mod Ranked
