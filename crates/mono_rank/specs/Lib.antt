pub mod Rank
pub mod Next
pub mod Stored
pub mod Table
pub mod Laws
pub mod Cover
pub mod Rows
