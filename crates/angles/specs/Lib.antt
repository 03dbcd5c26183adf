pub mod Constants
pub mod SinCos
pub mod Inverse
pub mod Special
