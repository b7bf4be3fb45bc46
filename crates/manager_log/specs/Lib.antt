pub mod Log
pub mod Pending
pub mod Parts
