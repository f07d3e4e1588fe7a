pub mod Statuses
pub mod Rows
pub mod Effects
pub mod EffectParts
pub mod Journals
