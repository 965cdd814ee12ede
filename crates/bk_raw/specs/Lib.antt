pub mod Trees
pub mod Codes
pub mod Grammar
pub mod Errors
pub mod Meaning
