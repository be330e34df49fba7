pub mod Pages
pub mod Edits
pub mod Steps
