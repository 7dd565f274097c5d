pub mod Refuted
pub mod Parts
pub mod Thinnings
pub mod Hinted
