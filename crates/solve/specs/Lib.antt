pub mod Constants
pub mod Vector
pub mod Solve
pub mod Covariance
