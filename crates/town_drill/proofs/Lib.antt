mod Ranges
mod RowRanges
mod TripLemmas
