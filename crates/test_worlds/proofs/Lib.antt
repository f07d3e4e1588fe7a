pub mod Runs
pub mod Attempts
pub mod Unmade
