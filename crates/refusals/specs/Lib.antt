pub mod Matters
pub mod Refusals
pub mod Laws
