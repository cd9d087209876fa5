pub mod Answers
pub mod Best
pub mod Packed
pub mod PackLaws
pub mod Query
pub mod TerminalCells
