pub mod TornMatches
pub mod Laws
