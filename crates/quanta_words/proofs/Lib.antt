pub mod WordLaws
pub mod IndexLaws
pub mod LookupLaws
pub mod Theorems
