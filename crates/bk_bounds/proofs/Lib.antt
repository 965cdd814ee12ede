pub mod Sizes
pub mod Copies
pub mod Written
pub mod Scripts
pub mod Operations
pub mod Levels
pub mod Chains
pub mod Projects
