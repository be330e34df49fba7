pub mod Made
pub mod Connected
pub mod Guests
