pub mod Agreeing
pub mod Matches
