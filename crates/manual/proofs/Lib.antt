pub mod PartLaws
pub mod Levels
pub mod Holds
pub mod ErrorEntries
pub mod Triggers
pub mod Errors
pub mod Shown
pub mod Entries
