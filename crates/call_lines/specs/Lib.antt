pub mod Answers
pub mod Lines
pub mod Plans
pub mod Replies
pub mod Said
pub mod Texts
pub mod Verbs
