pub mod State
pub mod Durable
pub mod File
pub mod Records
pub mod Reading
pub mod Journal
