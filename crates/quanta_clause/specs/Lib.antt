pub mod Units
pub mod Clauses
