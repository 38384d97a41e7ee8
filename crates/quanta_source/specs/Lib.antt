pub mod Source
pub mod Tests
