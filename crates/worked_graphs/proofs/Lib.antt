mod LeadingRing
mod RingOfSix
