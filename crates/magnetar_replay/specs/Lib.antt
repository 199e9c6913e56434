pub mod Words
pub mod Lists
pub mod Text
pub mod Strings
pub mod Steps
pub mod Functions
pub mod Replay
