pub mod Kinds
pub mod Layout
pub mod Faults
pub mod Verdict
pub mod Flaws
