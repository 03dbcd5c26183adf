pub mod Parts
pub mod Refined
pub mod Taken
pub mod Unseen
pub mod Matches
