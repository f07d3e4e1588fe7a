pub mod Naming
pub mod Showing
pub mod Typing
pub mod Unshown
