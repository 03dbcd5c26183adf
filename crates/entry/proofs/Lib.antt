pub mod ListTests
pub mod Stages
pub mod StartPoses
pub mod Backwards
