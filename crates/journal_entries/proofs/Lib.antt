pub mod Framing
pub mod Scanned
pub mod Cuts
