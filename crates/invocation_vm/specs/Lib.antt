pub mod Calls
pub mod Making
pub mod Seen
pub mod Steps
pub mod Views
