pub mod Codes
pub mod Trails
