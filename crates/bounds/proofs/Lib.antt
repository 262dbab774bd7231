pub mod Levels
pub mod Again
pub mod Events
pub mod OnlyBus
pub mod Unique
