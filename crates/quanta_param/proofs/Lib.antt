pub mod Options
pub mod Params
pub mod Fields
