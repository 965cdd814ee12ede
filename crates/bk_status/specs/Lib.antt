pub mod States
pub mod Rows
pub mod Obvious
pub mod Examples
pub mod Laws
pub mod Replayable
pub mod Places
