pub mod FewerCells
pub mod AlikeCounts
pub mod Outlines
