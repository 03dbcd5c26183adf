pub mod Distances
pub mod Kept
pub mod Gathered
