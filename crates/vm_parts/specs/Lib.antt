pub mod Arrived
pub mod Deliveries
pub mod Ephemerals
pub mod Mappings
pub mod Outboxes
pub mod Tracked
pub mod Starts
