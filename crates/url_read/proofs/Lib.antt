pub mod Degrees
pub mod FifthPiece
pub mod Judged
pub mod LastValues
pub mod Marks
pub mod Numbered
pub mod Suffixes
pub mod TooMany
