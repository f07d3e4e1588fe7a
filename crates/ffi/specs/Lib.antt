pub mod Describing
pub mod Script
pub mod Texts
