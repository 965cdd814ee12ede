pub mod Whole
pub mod Sound
pub mod Held
pub mod Adding
pub mod Summing
pub mod Lines
pub mod Verdict
pub mod Answer
