pub mod Guests
pub mod Serves
