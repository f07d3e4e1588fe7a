pub mod Encoding
pub mod Choices
pub mod Bodies
pub mod Same
