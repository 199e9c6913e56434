pub mod Lanes
pub mod Written
pub mod Rotate
pub mod Planes
pub mod Xor
