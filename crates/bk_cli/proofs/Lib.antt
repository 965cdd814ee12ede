pub mod Asking
pub mod Getters
pub mod Reading
