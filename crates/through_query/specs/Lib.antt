pub mod ChainLaws
pub mod Chains
pub mod Layers
