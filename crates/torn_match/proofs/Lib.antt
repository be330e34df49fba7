pub mod Meant
pub mod Copies
pub mod Entries
pub mod Moments
