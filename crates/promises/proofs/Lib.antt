pub mod Levels
pub mod Calls
pub mod Refusals
pub mod Charged
pub mod Interrupts
