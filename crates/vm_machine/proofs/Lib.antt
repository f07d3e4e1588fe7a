pub mod Answering
pub mod Calling
pub mod Foreseeing
pub mod Preparing
pub mod Replaying
pub mod Ruling
pub mod Skipping
