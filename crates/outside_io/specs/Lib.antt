pub mod Faults
pub mod Telling
pub mod Disk
pub mod Link
pub mod Host
pub mod Memory
pub mod MemoryLink
pub mod MemoryHost
