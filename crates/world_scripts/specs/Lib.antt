pub mod Worlds
pub mod Rounds
pub mod Said
pub mod Scripts
pub mod Statuses
pub mod Printed
pub mod Runs
