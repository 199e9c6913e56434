pub mod Steps
pub mod Message
pub mod Refusals
pub mod EqFactor
