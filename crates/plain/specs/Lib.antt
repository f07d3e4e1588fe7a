pub mod formers
pub mod Same
