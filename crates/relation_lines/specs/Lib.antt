pub mod Lines
pub mod Prints
pub mod Levels
pub mod View
pub mod Words
pub mod Reading
pub mod Whole
