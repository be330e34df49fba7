pub mod Statuses
pub mod Clients
pub mod Replied
pub mod NbdRuns
