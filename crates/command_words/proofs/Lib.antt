mod Fits
mod Named
mod Numbers
mod Pairs
mod Plain
mod Reading
mod RowWalks
mod Taken
