pub mod ViaParts
pub mod ViaWays
pub mod WaySets
