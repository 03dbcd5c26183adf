pub mod Rows
pub mod Normal
