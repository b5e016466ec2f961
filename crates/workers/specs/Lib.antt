pub mod Working
pub mod Running
pub mod Manned
pub mod Rounds
