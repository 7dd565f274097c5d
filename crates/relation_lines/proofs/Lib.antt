pub mod WordsAre
pub mod Fits
pub mod Sound
pub mod Again
pub mod Whole
