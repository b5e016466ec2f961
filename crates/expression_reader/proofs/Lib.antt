pub mod Constants
pub mod Loops
pub mod Exponents
pub mod Operands
pub mod Handed
pub mod Table
pub mod MemberLists
