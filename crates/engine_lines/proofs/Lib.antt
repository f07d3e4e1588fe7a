pub mod Reading
pub mod Handlers
pub mod Printing
