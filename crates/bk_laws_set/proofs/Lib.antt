pub mod Answered
pub mod Intervals
pub mod Members
pub mod Operations
pub mod Subsets
pub mod True
