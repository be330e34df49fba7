pub mod Crashes
pub mod Sessions
pub mod Starts
pub mod Steps
