pub mod Encoding
pub mod Parts
pub mod Bodies
pub mod Same
