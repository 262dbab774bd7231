pub mod Ways
pub mod Tries
