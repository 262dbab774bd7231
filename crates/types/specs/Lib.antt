pub mod Kinds
pub mod Vectors
pub mod Causes
pub mod Tables
pub mod Past
pub mod Every
pub mod Laws
