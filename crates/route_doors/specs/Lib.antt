pub mod QueriedLaws
pub mod RoadDoors
