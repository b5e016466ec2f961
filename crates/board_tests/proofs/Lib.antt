pub mod Computed
pub mod CurveComputed
pub mod Monomials
pub mod Sitting
pub mod Workers
