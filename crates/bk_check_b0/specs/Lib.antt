pub mod Executed
pub mod Arrays
