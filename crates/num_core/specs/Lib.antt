pub mod Ranges
pub mod Wrapping
pub mod Division
