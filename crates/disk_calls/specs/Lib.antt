pub mod Disks
pub mod Laws
