pub mod Masks
pub mod Flips
pub mod Entries
pub mod Inside
