pub mod CallRuns
pub mod Through
mod Whole
