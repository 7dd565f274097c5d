pub mod Lanes
pub mod Choices
pub mod Steps
pub mod Uses
pub mod Layouts
pub mod PlannedRuns
