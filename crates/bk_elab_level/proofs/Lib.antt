pub mod Branching
pub mod Elaborating
