pub mod Safety
pub mod Nodes
