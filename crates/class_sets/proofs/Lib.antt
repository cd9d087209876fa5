mod Counting
mod SameSets
