pub mod Told
pub mod Turning
pub mod Steps
pub mod Goes
pub mod Hosts
