pub mod Texts
pub mod FirstScripts
pub mod Finding
pub mod Causes
pub mod Ending
pub mod Strays
pub mod Named
