-- What can be wrong with what is written, where, and which of several faults is told.
pub mod Places
pub mod Limits
pub mod Faults
pub mod Blame
pub mod FormFaults
