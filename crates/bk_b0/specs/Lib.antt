pub mod Kinds
pub mod Cells
pub mod Places
pub mod Translation
pub mod CodeUnit
pub mod Laws
