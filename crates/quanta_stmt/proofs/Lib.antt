pub mod Standing
pub mod Keywords
pub mod Assigning
