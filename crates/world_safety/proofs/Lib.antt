pub mod Moments
pub mod Holders
pub mod RealNodes
