pub mod Called
pub mod Making
