pub mod ExclusionLemmas
pub mod MidpointLemmas
