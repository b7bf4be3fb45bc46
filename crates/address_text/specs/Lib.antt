pub mod Fields
pub mod Numbers
pub mod Addresses
pub mod Laws
