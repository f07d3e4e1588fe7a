pub mod Acknowledging
pub mod Passing
pub mod States
