pub mod Runs
pub mod WorkedRuns
pub mod Journaling
pub mod Posting
pub mod Tellings
