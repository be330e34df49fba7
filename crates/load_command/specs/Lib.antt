pub mod Commands
pub mod Growing
pub mod Loads
pub mod Stops
pub mod Sums
