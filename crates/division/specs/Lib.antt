pub mod Places
pub mod Rotation
pub mod Remainders
pub mod Divisions
