pub mod Halves
pub mod Schedule
pub mod Roles
pub mod Answers
pub mod Safety
