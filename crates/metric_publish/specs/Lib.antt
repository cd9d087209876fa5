pub mod History
pub mod Board
pub mod Calls
pub mod Published
