pub mod Median
pub mod Rank
pub mod Selection
