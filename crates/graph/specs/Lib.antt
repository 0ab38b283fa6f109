pub mod Rounds
pub mod Distances
