pub mod Longest
pub mod Statements
pub mod Found
pub mod Faults
pub mod Defining
