mod PieceLemmas
mod Marked
pub mod Touching
mod Passed
