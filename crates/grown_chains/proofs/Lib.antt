pub mod Added
pub mod Alone
pub mod Sized
pub mod Children
pub mod Growing
