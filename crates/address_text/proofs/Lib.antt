pub mod Parts
pub mod NumberText
pub mod AddressText
