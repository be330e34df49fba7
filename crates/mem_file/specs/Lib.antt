pub mod Steps
pub mod MemFile
pub mod Picked
