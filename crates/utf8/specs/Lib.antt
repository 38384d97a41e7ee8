pub mod Block
pub mod Utf8
