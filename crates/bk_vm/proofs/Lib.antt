pub mod Tops
pub mod Steps
pub mod Calls
pub mod Told
