pub mod Requests
pub mod Store
pub mod TableState
