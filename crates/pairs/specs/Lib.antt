pub mod Pairs
pub mod Elements
pub mod Candidates
pub mod Lent
pub mod Strips
pub mod Spots
