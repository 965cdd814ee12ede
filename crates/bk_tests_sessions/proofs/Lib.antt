pub mod Drawn
pub mod Members
pub mod Taken
