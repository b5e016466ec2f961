pub mod Prime
pub mod Inverse
pub mod Decimal
pub mod Sign
