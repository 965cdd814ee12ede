pub mod Numbers
pub mod Step
pub mod Run
pub mod Session
pub mod Checks
pub mod Laws
pub mod CellValues
