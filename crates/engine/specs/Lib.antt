pub mod Hashing
pub mod Chain
pub mod Steps
pub mod Pairs
pub mod Rows
