pub mod Tables
pub mod Chains
pub mod Suffixes
pub mod Loops
pub mod Phrases
pub mod Arguments
