pub mod Literals
pub mod Rules
pub mod Choices
pub mod Sums
pub mod Comparisons
pub mod Divisions
pub mod Calls
