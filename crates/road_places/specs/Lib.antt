pub mod EndLaws
pub mod Ends
pub mod Paid
pub mod PaidLaws
pub mod PartLaws
pub mod Permitted
pub mod Places
