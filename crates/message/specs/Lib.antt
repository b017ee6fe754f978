pub mod Blocks
pub mod Hash
pub mod Standard
pub mod Limits
pub mod Answer
pub mod Finding
pub mod Checks
