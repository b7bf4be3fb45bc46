pub mod Votes
pub mod Five
pub mod Acceptor
pub mod Leader
pub mod Replica
pub mod Events
pub mod Agreement
