pub mod Feeding
pub mod Writing
pub mod Checking
