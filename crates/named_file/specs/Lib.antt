pub mod Looks
pub mod Repairs
