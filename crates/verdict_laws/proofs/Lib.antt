pub mod Covering
pub mod Shown
pub mod Walked
