pub mod Sends
pub mod Turns
pub mod Steps
pub mod Datagrams
pub mod Arriving
pub mod Fastpath
pub mod Boots
pub mod Bodies
