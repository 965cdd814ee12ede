pub mod Patterns
pub mod Rows
pub mod Tables
pub mod Found
pub mod Laws
