pub mod Cancelling
pub mod Resolving
pub mod Running
pub mod Waiting
