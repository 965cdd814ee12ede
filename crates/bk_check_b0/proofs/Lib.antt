pub mod Executing
pub mod Arraying
pub mod Branching
