pub mod Pushes
pub mod Images
pub mod Lengths
pub mod Shapes
pub mod Jumps
pub mod Examples
pub mod Values
