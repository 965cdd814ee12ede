pub mod Rounds
pub mod NextRound
pub mod Members
pub mod AllWays
pub mod Among
pub mod Assigned
