pub mod Entries
pub mod Limits
pub mod Lists
pub mod Numbers
