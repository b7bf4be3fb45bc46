pub mod Ran
pub mod Ends
pub mod Replayed
pub mod Schedules
