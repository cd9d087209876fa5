pub mod Exacting
pub mod Sets
