pub mod State
pub mod Ends
pub mod Flows
pub mod Depth
pub mod Sessions
