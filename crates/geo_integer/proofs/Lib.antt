pub mod RootLemmas
pub mod Halves
