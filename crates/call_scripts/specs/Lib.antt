pub mod Statuses
pub mod Performed
pub mod Transcripts
pub mod Runs
