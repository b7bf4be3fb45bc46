pub mod Places
pub mod Fulls
pub mod Lists
pub mod Firsts
