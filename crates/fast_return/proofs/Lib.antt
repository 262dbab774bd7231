pub mod Finds
pub mod Sizes
pub mod Patches
pub mod Walks
