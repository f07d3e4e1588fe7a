pub mod CommandTypes
pub mod ContentTypes
pub mod Exits
pub mod Options
pub mod Values
pub mod Same
