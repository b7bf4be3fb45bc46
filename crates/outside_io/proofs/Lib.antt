pub mod Times
pub mod Torn
pub mod Calls
