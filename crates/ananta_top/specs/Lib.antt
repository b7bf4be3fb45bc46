pub mod Words
pub mod Answers
pub mod Node
pub mod Run
