pub mod Storing
pub mod Changing
pub mod Among
pub mod Books
pub mod Growing
pub mod Keeping
pub mod Beginnings
pub mod Replaying
