pub mod Rules
pub mod RuleTests
pub mod EntryWalks
pub mod Steps
pub mod Ends
pub mod Stray
pub mod LoginSteps
