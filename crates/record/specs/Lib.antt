pub mod Number
pub mod Layout
pub mod Head
pub mod Reading
pub mod Claims
pub mod Header
pub mod Passes
