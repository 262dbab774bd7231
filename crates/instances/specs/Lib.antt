pub mod Start
pub mod Rows
pub mod Computed
pub mod Words
pub mod Entries
pub mod Instances
