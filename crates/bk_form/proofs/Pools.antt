-- Lemmas of pools of formulas.
pub mod Lists
pub mod Pooled
pub mod Deciding
pub mod KeyDecided
pub mod Keyed
pub mod Held
pub mod Shared
pub mod Wider
pub mod Placed
pub mod Ranged
pub mod Binders
pub mod Again
