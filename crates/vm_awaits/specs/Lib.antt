pub mod Answered
pub mod Awaits
pub mod Cancels
