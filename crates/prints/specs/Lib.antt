pub mod Prints
pub mod Laws
