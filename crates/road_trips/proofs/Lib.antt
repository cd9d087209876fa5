pub mod RowLemmas
pub mod StopLemmas
