pub mod Digest
pub mod Feeding
