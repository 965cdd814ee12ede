pub mod Turns
pub mod FileSteps
pub mod OneCut
pub mod OneFault
pub mod Neither
pub mod SomeCut
pub mod SomeFiles
