pub mod Lent
pub mod Attempts
pub mod Patched
pub mod Framed
pub mod Restored
pub mod Laws
