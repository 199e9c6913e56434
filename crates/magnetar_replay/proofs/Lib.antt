pub mod Examples
pub mod TextLaws
pub mod WordLaws
pub mod StepLaws
pub mod ReplayLaws
