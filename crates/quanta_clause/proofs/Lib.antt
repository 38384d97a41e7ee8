pub mod Bytes
pub mod Units
pub mod Clauses
pub mod Turns
