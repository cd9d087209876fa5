pub mod Beginnings
pub mod ControlDoors
pub mod QueryDoors
