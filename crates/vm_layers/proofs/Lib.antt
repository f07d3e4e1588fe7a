pub mod Translating
pub mod Cutting
pub mod Fed
pub mod Output
pub mod Coming
pub mod Taken
mod Framed
mod Decoded
