pub mod AllRead
pub mod ChosenAmong
pub mod Cuts
pub mod EachRead
pub mod Numbers
