pub mod RemainderValues
pub mod Reductions
pub mod Rotations
pub mod Additions
pub mod Absorptions
pub mod OneRemainder
