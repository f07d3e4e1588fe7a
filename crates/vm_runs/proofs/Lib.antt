pub mod Entries
pub mod Finding
pub mod Numbered
pub mod Places
pub mod Rising
