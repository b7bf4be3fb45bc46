pub mod Keys
pub mod Ordered
pub mod Machines
pub mod Fullness
pub mod Choosing
pub mod Giving
