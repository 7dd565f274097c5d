pub mod OnlyCells
pub mod Written
pub mod Assignments
