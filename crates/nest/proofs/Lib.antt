pub mod Tale
pub mod Reading
