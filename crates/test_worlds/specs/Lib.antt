pub mod Asking
pub mod Choosing
pub mod Keeping
pub mod Napping
pub mod Steps
