pub mod Sites
pub mod Lengths
pub mod Disks
pub mod Nodes
pub mod Firsts
pub mod Overflows
