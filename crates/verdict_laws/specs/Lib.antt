pub mod Evidence
pub mod Laws
pub mod Reach
