pub mod Seen
pub mod Entries
pub mod Hearing
pub mod Leaving
pub mod Retries
pub mod Hosts
pub mod Transfers
pub mod Idle
