pub mod Counting
pub mod Sums
pub mod Views
pub mod Families
