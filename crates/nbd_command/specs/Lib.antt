pub mod Nbd
pub mod Clients
