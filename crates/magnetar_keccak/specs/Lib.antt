pub mod State
pub mod Offsets
pub mod Rounds
pub mod Keccak
pub mod Planes
