pub mod Outlines
pub mod CheckedFiles
pub mod ToldCells
pub mod ToldCharts
pub mod ToldBeginnings
pub mod LowNames
pub mod LargePous
