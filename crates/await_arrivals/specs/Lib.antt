pub mod Came
pub mod Entries
pub mod Ids
pub mod Kept
pub mod Numbers
pub mod Proportion
pub mod Results
