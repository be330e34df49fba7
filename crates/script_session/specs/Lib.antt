pub mod Told
pub mod MergeSteps
pub mod StepsLeft
pub mod Answers
pub mod Histories
pub mod Faults
pub mod Running
pub mod MergeRunning
