pub mod Faults
pub mod Members
pub mod Form
pub mod Sizes
pub mod Bounds
