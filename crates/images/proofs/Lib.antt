pub mod Shapes
pub mod Jumps
pub mod Images
pub mod Values
pub mod Lengths
