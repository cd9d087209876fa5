pub mod Encoding
pub mod Grammar
pub mod Decoding
pub mod Answers
pub mod Readings
pub mod RoundTrip
pub mod GrammarLaw
