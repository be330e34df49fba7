pub mod Copied
pub mod Ranges
pub mod Pieces
pub mod Stamping
pub mod Passing
