pub mod Cuts
pub mod Plain
pub mod Buffers
pub mod Jobs
pub mod Runs
pub mod Differences
