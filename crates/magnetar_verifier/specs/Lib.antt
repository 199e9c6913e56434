pub mod Steps
pub mod Outer
pub mod EndSteps
pub mod End
pub mod Claims
