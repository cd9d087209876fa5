mod DigitValues
mod Lengths
