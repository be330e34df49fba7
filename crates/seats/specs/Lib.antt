pub mod Counting
pub mod Families
