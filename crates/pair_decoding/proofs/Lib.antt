pub mod FreeWords
pub mod Spelled
pub mod Fronts
