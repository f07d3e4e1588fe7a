pub mod Answers
pub mod Calls
pub mod Code
pub mod Follows
pub mod Invocations
pub mod Promises
pub mod Steps
pub mod Meaning
