pub mod Words
pub mod Index
pub mod Lookup
