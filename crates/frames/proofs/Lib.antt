pub mod Filled
pub mod Sizes
