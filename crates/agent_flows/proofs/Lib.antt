pub mod Marked
pub mod Looks
pub mod Kept
