pub mod GivenIds
pub mod TrackedCommands
mod AskedCommands
pub mod Numbering
