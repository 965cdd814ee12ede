pub mod Files
pub mod Stages
pub mod Laws
