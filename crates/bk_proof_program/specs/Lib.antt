pub mod Settled
pub mod Answers
pub mod Texts
pub mod Told
pub mod Goals
pub mod Prunes
pub mod Explained
pub mod Said
