pub mod Words
pub mod Halves
pub mod Types
pub mod Arguments
