pub mod Threes
pub mod Spots
pub mod Points
