pub mod Easy
pub mod NewVariables
pub mod Named
pub mod Found
