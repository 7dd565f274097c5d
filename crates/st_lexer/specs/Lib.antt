pub mod Parts
pub mod Lexing
pub mod Fronts
pub mod Tables
