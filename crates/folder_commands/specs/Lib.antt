pub mod Laws
pub mod News
pub mod Parents
pub mod Repairs
