pub mod Shapes
pub mod ValueSteps
pub mod HeaderSteps
