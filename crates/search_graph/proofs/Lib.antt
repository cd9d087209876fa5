mod Ascending
mod Chaining
mod Filling
mod IndexRows
