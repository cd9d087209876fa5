pub mod Growing
pub mod Leading
pub mod Publication
pub mod Stopping
pub mod Told
pub mod Traffic
pub mod Parts
