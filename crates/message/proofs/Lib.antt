pub mod Within
pub mod Cutting
pub mod Pieces
pub mod Finding
pub mod Strings
pub mod StandardProduct
pub mod StandardHash
