-- Which lists of tokens each tree is written as, and what follows from it.
pub mod Pieces
pub mod Brackets
pub mod Bars
pub mod Spelling
pub mod SubSpelling
pub mod ComponentSpelling
pub mod ScriptSpelling
pub mod Reading
pub mod Laws
pub mod Texts
