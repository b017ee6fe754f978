pub mod Horner
pub mod Turns
pub mod Digits
pub mod Printed
pub mod Groups
