pub mod Wholes
pub mod Undoing
pub mod Faults
pub mod Values
