pub mod RowRanges
pub mod Standing
