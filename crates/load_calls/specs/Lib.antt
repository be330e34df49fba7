pub mod Draws
pub mod Histories
pub mod Laws
pub mod Load
pub mod OneThread
pub mod Printed
