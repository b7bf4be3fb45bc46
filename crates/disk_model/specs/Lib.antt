pub mod Disks
pub mod States
pub mod Picked
pub mod Overlays
pub mod Fuses
