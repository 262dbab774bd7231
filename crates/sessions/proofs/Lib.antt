pub mod Ways
pub mod Walks
pub mod Lines
pub mod Acts
pub mod ByNumber
pub mod Fresh
