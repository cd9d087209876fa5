pub mod RingOfSix
pub mod LeadingRing
