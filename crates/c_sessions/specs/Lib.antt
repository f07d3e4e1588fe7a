pub mod Replies
pub mod Retries
pub mod Peers
pub mod Sessions
pub mod Calls
