pub mod Listed
pub mod Meant
