pub mod Mapped
pub mod Outboxes
pub mod Results
pub mod Tracking
