mod Refusals
mod Noting
mod Reaching
mod Causing
mod Later
mod Filling
mod Homing
mod Stepping
mod Merged
mod Unmoved
mod Passing
mod Rest
mod Copied
mod Planning
mod Calling
mod Ended
pub mod Breaking
mod Counting
pub mod Marked
pub mod Stamped
pub mod Fetched
