pub mod Words
pub mod Tasks
pub mod Asked
pub mod Laws
