pub mod CallsTold
pub mod EventsTold
pub mod Exchanged
pub mod MergeTold
pub mod OneTold
pub mod Ran
