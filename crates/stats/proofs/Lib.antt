pub mod Counts
pub mod Order
pub mod Partition
pub mod Narrowed
pub mod Fronts
pub mod Summary
pub mod ByValue
pub mod Theorems
