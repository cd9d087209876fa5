pub mod CellLemmas
pub mod JoinedLists
mod Pointed
