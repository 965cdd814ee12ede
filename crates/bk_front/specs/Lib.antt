pub mod ProjectFile
pub mod Chain
pub mod Project
pub mod Stages
pub mod Trims
pub mod Laws
