pub mod Sending
pub mod Opening
pub mod Handling
