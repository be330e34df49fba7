pub mod Back
pub mod Followed
pub mod Home
pub mod Left
pub mod Lent
pub mod OneAnswer
pub mod RuleSaid
pub mod Said
