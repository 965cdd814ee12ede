pub mod Expanding
pub mod Rows
pub mod RowNames
pub mod Laws
