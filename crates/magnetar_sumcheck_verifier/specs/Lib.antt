pub mod Sum
pub mod Round
pub mod Outcome
pub mod Order
pub mod Outer
pub mod Inner
pub mod Messages
