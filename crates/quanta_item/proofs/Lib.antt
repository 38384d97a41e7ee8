pub mod Blocks
pub mod Items
