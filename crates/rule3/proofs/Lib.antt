pub mod Worked
pub mod Nests
pub mod Rule3
pub mod Stated
