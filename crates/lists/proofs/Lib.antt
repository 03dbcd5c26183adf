pub mod Cases
pub mod Fronts
pub mod Clearing
pub mod Chunks
