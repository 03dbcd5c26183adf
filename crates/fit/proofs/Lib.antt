pub mod Lookup
pub mod Summing
