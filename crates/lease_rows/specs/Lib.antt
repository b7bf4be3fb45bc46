pub mod Entries
pub mod Links
pub mod Blocks
pub mod Effects
pub mod Rows
pub mod Starts
pub mod Walks
