pub mod Words
pub mod Sums
pub mod Comparisons
pub mod Products
pub mod Divisions
pub mod Choices
pub mod Shifts
pub mod Conversions
