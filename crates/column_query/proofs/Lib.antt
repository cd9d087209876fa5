pub mod Asking
pub mod Best
pub mod Costing
pub mod Entering
pub mod Small
pub mod Through
pub mod Turns
pub mod Ways
