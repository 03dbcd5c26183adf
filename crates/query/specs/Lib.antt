pub mod Query
pub mod Listing
pub mod Sighting
