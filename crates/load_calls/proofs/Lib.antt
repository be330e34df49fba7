mod Firsts
mod FourGuests
mod Keyed
mod Loads
mod OwnCalls
pub mod OwnSectors
mod Pages
pub mod Placed
pub mod Prepared
mod Rows
pub mod Seen
