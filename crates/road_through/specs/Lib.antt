pub mod States
pub mod Through
