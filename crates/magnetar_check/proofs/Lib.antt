pub mod RowWalk
pub mod SystemWalk
pub mod CheckEnds
pub mod Exactly
