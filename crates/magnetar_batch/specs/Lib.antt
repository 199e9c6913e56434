pub mod Fold
pub mod Systems
pub mod TableSteps
pub mod Entries
pub mod MarkedRows
pub mod Value
pub mod ValueSteps
