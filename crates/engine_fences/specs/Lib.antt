pub mod Causes
pub mod Completions
pub mod Deliveries
pub mod Fences
pub mod KeyStates
pub mod KeyTurns
pub mod Ordering
pub mod Signals
