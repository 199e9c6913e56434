pub mod Entries
pub mod InScratch
pub mod Shared
pub mod Whole
pub mod Labels
pub mod Stages
pub mod Capture
