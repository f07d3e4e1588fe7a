pub mod Refusing
pub mod Rows
pub mod Outcomes
pub mod Failing
pub mod Told
pub mod Commands
pub mod Awaiting
