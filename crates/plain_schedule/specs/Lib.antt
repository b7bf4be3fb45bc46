pub mod Lines
pub mod Connections
pub mod Packets
pub mod Schedule
pub mod Answers
pub mod Safety
pub mod FullLeases
pub mod Kept
