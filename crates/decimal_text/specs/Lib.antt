pub mod Decimal
pub mod Numeral
pub mod ObjectId
