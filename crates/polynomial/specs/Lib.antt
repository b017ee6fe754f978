pub mod Bits
pub mod Polynomials
pub mod Outcomes
pub mod Steps
pub mod Blocks
pub mod Nibbles
pub mod Coefficients
