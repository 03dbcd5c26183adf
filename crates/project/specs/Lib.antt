pub mod Project
pub mod Camera
