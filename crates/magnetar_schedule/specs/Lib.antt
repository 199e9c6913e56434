pub mod Schedule
pub mod ScheduleRun
pub mod Stepwise
pub mod RealRun
pub mod Theorems
