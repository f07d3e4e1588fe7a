pub mod Ids
pub mod Notes
pub mod Deliverable
pub mod Faults
pub mod Targets
