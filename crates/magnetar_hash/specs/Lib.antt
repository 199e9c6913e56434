pub mod Bytes
pub mod Sha3
pub mod Parts
pub mod Sponge
pub mod Transcript
