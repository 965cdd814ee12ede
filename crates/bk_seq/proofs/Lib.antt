pub mod Validity
pub mod Paths
pub mod PathLaws
pub mod Typing
pub mod Widening
pub mod SplitValidity
pub mod SizedValidity
