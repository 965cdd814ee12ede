pub mod Overlaps
pub mod Copies
pub mod Bindings
pub mod Lefts
pub mod Laws
