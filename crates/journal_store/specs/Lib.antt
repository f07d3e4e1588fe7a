pub mod Known
pub mod Ids
pub mod Entered
pub mod Journals
pub mod Stored
pub mod Awakeables
pub mod Effects
