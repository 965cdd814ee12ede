pub mod Executed
pub mod Sizes
pub mod Spelled
pub mod Samples
pub mod Laws
