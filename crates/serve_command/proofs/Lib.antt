pub mod Handing
pub mod ServedOver
pub mod Keeping
pub mod ServedRuns
pub mod Told
