pub mod BufferLaws
pub mod InverseLaws
pub mod ForwardLaws
mod Worked
