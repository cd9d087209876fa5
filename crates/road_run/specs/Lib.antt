pub mod AskEnding
pub mod CheckEnding
pub mod Ending
pub mod InnerEnds
pub mod MapReads
pub mod TownEnding
