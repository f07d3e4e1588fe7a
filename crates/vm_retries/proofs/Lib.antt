pub mod Bounds
pub mod Delays
pub mod Multiples
pub mod Strides
