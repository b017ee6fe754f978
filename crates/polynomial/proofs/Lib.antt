pub mod Coefficients
pub mod Values
pub mod Conjugates
pub mod Fill
pub mod Reading
pub mod Made
