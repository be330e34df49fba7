pub mod Meaning
pub mod Told
pub mod Soundness
mod OneList
