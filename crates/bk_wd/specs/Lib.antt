pub mod Joining
pub mod Operands
pub mod WellDefined
pub mod Checked
pub mod Laws
pub mod Examples
