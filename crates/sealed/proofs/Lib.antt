pub mod Numbers
pub mod Layers
pub mod Running
pub mod Verdicts
