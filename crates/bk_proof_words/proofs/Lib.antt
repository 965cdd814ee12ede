pub mod Getters
pub mod Reading
