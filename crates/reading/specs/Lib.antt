pub mod Shapes
pub mod Blocks
pub mod Records
pub mod Readers
pub mod Scanning
pub mod Sections
pub mod Parts
