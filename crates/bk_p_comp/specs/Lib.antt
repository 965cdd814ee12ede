pub mod Plain
pub mod Entries
pub mod Parts
pub mod Clauses
pub mod Faults
