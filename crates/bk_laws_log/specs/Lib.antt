pub mod Logic
pub mod Order
pub mod Rows
