pub mod Ops
pub mod Nodes
