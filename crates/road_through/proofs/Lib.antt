pub mod BridgeLemmas
pub mod EndLemmas
pub mod LegLemmas
pub mod TableLemmas
