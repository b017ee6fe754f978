pub mod Chains
pub mod Subkeys
pub mod HashedRows
