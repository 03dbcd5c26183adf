pub mod Deciding
pub mod Powers
