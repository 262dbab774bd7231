pub mod Views
pub mod Places
pub mod Plans
pub mod Quiet
pub mod Patched
pub mod Laws
