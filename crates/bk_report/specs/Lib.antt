pub mod Check
pub mod Table
pub mod Obligations
pub mod Listing
