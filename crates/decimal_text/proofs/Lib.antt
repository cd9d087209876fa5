pub mod Appending
pub mod Fitting
pub mod Parts
pub mod KeptDigits
pub mod Ranges
pub mod Usual
