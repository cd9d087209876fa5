mod Frontiers
mod Labelling
mod Ranking
mod Wording
