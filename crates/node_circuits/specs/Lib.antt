pub mod Makes
pub mod Rows
pub mod NodeWords
