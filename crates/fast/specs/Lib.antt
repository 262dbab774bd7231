pub mod Landings
pub mod Stacks
pub mod Patches
pub mod Laws
