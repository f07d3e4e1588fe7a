pub mod Asks
pub mod GivenIds
pub mod Requests
pub mod StateReads
pub mod TrackedCommands
pub mod Awakeables
pub mod Carried
