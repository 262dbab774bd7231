pub mod Trace
pub mod Interrupts
