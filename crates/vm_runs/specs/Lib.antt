pub mod Firsts
pub mod Kept
pub mod Pending
pub mod Settling
