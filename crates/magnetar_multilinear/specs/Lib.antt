pub mod Doubling
pub mod EqTable
pub mod Multilinear
pub mod Binding
pub mod Entries
pub mod Starts
