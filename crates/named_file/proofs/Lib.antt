pub mod Looked
pub mod Touched
pub mod Repaired
