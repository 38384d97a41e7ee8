pub mod Tokens
pub mod Tree
pub mod Answers
pub mod Cursor
pub mod Lists
