pub mod Members
pub mod Lookups
pub mod HandedOn
pub mod Engines
pub mod Deliveries
pub mod Beginnings
pub mod Between
pub mod Replaying
