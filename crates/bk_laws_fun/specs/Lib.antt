pub mod Relations
pub mod Functions
pub mod Rows
