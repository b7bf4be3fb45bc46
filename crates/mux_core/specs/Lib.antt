pub mod Seen
pub mod Hearing
pub mod Routed
