pub mod Sends
pub mod Opens
pub mod Handles
