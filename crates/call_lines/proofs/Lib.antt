pub mod Asking
pub mod Calling
pub mod Making
pub mod Saying
