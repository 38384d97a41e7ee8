pub mod Grammar
pub mod Names
pub mod Records
pub mod Reader
pub mod Before
pub mod Fused
pub mod Facts
