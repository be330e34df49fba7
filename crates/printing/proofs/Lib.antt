pub mod Sending
mod Lines
mod Digits
pub mod Saying
