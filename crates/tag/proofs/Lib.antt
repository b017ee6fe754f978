pub mod Comparing
pub mod Checking
