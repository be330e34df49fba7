pub mod Readings
pub mod Sources
pub mod Sweeps
pub mod Settling
