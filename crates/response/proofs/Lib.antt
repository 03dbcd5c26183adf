pub mod Fronts
pub mod Responses
pub mod Agreeing
pub mod Programs
