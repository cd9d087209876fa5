pub mod CopyLemmas
pub mod NetworkLemmas
pub mod RangeLemmas
