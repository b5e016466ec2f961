pub mod Poly
pub mod Canonical
pub mod Ideal
pub mod Span
pub mod Letters
pub mod Shape
pub mod Degree
pub mod Jacobian
