pub mod RequestLists
pub mod Stored
pub mod Folds
