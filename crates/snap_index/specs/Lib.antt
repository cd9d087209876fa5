pub mod Candidates
pub mod Ends
pub mod Firsts
pub mod Index
pub mod Kept
pub mod Nearest
pub mod Snapped
