mod Json
mod Lists
pub mod Sized
mod Unlisted
