pub mod Groups
pub mod Results
pub mod Values
pub mod Reading
pub mod Grammar
pub mod Writing
pub mod RoundTrip
