pub mod Walking
pub mod Sending
