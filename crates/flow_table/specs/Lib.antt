pub mod Tables
pub mod Caches
