pub mod Shortness
pub mod AlikeCounts
pub mod RunningCounts
pub mod StatedCounts
