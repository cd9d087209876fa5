mod Heaps
mod Merged
