pub mod Notation
pub mod Choices
pub mod Futures
pub mod FutureWords
pub mod OpenFutures
