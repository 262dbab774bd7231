pub mod Matched
pub mod Interrupted
pub mod Unimplemented
pub mod Taken
pub mod Supervised
pub mod Grouped
