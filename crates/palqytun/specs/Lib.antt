pub mod Reports
pub mod Worlds
