pub mod Arguments
pub mod Check
pub mod Fixed
pub mod Entry
pub mod Backwards
