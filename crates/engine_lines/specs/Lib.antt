pub mod Said
pub mod Scripts
pub mod Printed
pub mod Orders
pub mod Targets
pub mod Parts
pub mod Statuses
