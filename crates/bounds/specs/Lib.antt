pub mod Skeleton
pub mod Faulted
pub mod ErrorFrames
pub mod Levels
pub mod OnlyBus
pub mod Ledger
pub mod Events
pub mod Sharp
