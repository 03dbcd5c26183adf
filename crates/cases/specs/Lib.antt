pub mod Cases
pub mod Deciding
pub mod Lists
pub mod Orderings
