pub mod Polynomials
pub mod Checks
pub mod Rules
pub mod Schemes
pub mod Theorems
