pub mod Faults
pub mod Growth
pub mod Box
pub mod Guarded
pub mod Shapes
pub mod Laws
pub mod Examples
pub mod Quantifiers
