pub mod Status
pub mod Banks
pub mod Laws
