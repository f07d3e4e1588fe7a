pub mod Encoding
pub mod Futures
pub mod Bodies
pub mod Same
