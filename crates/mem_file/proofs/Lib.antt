pub mod StepLemmas
pub mod PickedImages
pub mod Replaying
