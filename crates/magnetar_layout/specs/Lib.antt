pub mod Every
pub mod Limits
pub mod Lent
pub mod Login
pub mod Layout
pub mod Tests
pub mod Entries
