pub mod Digits
pub mod Commands
