pub mod Reading
pub mod Finish
pub mod Targets
pub mod Demand3
pub mod Values
pub mod Rows
pub mod Before
