pub mod Told
pub mod Worked
pub mod Bytes
pub mod Example
pub mod Follows
