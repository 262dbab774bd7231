pub mod Rows
pub mod Entries
pub mod Laws
pub mod Ways
pub mod Matched
pub mod Met
