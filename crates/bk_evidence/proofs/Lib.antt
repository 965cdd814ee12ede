pub mod Depths
pub mod Marks
pub mod Views
pub mod Pieces
pub mod Listed
