pub mod Quotient
pub mod Stair
