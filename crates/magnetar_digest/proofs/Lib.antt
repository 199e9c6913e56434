pub mod FedLaws
pub mod Ends
pub mod OneRelation
pub mod LentWords
pub mod Examples
