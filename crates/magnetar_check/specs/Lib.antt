pub mod Check
pub mod CheckSteps
pub mod Exactly
