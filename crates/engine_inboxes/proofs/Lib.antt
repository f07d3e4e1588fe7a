pub mod Coming
pub mod Naming
