pub mod AnswerLemmas
pub mod ChosenLemmas
pub mod RequestLemmas
pub mod TripLemmas
