pub mod SeenLabels
pub mod ExitOutcomes
pub mod Steps
