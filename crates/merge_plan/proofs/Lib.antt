pub mod Opened
pub mod Judging
pub mod Placing
pub mod Lines
pub mod Drawn
pub mod Paging
pub mod Planned
pub mod RetiredNames
pub mod LeafPlanned
pub mod NamesTurned
mod LeafPrepared
mod Gathered
