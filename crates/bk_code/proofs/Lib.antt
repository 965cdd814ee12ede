pub mod Ranges
pub mod Fits
pub mod Runs
pub mod Sessions
pub mod CellValues
pub mod DeadCode
