pub mod Answered
pub mod Counting
pub mod Largest
pub mod Logic
pub mod Order
pub mod Smallest
pub mod True
