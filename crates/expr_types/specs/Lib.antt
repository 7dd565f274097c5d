pub mod Fits
pub mod ValueMeanings
