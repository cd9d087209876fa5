mod Placing
mod Rowing
mod Sorting
