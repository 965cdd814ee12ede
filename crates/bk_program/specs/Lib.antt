pub mod Legal
pub mod Run
pub mod Answer
pub mod Outcome
pub mod Following
pub mod Laws
