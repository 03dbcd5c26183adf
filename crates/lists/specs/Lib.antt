pub mod Cleared
pub mod Fronted
