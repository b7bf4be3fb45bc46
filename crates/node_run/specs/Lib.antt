pub mod Timing
pub mod Turns
pub mod Serving
pub mod Going
pub mod Names
pub mod Ending
pub mod Hosting
