pub mod Laws
pub mod Octets
pub mod Theorems
