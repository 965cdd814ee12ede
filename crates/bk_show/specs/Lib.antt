pub mod Counted
pub mod Items
pub mod Shown
pub mod Binders
pub mod Readable
pub mod Stands
pub mod Laws
pub mod Examples
