pub mod Limits
pub mod Making
pub mod Folds
pub mod Held
pub mod Trails
pub mod Merging
pub mod OpenArms
