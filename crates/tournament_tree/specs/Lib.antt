pub mod Keys
pub mod Nodes
