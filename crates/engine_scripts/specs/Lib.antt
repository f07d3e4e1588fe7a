pub mod Events
pub mod Printed
pub mod Runs
