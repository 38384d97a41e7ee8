pub mod Bytes
pub mod Editions
pub mod Keywords
pub mod Runs
pub mod Symbols
pub mod Text
pub mod Token
pub mod TokenKind
