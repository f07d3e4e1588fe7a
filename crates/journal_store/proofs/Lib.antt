pub mod KnownIds
pub mod Appended
pub mod Stored
pub mod Faults
