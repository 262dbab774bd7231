pub mod Groups
pub mod Setters
pub mod Fields
pub mod Clocks
pub mod Fresh
pub mod Laws
