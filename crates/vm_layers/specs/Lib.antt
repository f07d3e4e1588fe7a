pub mod Layers
pub mod Own
pub mod Short
pub mod ShortLaws
pub mod Kept
pub mod Steps
pub mod Rest
pub mod Transcoding
