pub mod World
pub mod Firsts
pub mod Sound
pub mod Shown
pub mod Overflows
pub mod TableOverflows
pub mod Runs
