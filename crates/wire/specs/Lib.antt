pub mod Format
pub mod Forms
pub mod Reads
pub use Rattle.plain.specs.Same
pub use Rattle.plain.specs.declared.fault.Fault
