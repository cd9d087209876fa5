pub mod Entries
pub mod Firsts
pub mod Groups
pub mod Lists
pub mod Trees
