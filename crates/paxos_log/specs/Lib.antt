pub mod Sites
pub mod World
pub mod Told
pub mod WorkedRuns
