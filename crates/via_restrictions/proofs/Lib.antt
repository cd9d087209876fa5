pub mod CourseLemmas
pub mod FindLemmas
pub mod ViaLemmas
