pub mod Turns
pub mod Claimed
mod Settled
mod Sealed
mod Fetching
