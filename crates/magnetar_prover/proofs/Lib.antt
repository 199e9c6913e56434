pub mod Slots
pub mod Whole
pub mod Bound
pub mod Sent
pub mod InnerSteps
pub mod LaidOut
pub mod Segments
pub mod InnerWhole
pub mod Guarded
pub mod Entered
pub mod RowSteps
pub mod Drawn
pub mod EqTablePlaced
pub mod Blocks
pub mod SharedSteps
pub mod Joined
mod OuterParts
mod OuterGuard
mod Spelling
mod Staging
mod Turns
mod WholeSchedule
mod Captured
mod PlayGuard
mod Handed
