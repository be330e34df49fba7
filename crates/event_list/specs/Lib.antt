pub mod Answered
pub mod Histories
