pub mod Streams
pub mod Statuses
pub mod Ends
