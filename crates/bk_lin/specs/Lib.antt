pub mod Inequality
pub mod Certificate
pub mod Layout
pub mod Answer
