pub mod Counting
pub mod Entries
pub mod StateKeys
pub mod States
pub mod TrackedCalls
