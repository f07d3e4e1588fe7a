pub mod Intervals
pub mod Policies
