pub mod Growth
pub mod Widths
