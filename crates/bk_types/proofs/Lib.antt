pub mod Bounds
pub mod Operands
