pub mod Endings
pub mod Given
pub mod Weights
pub mod Turning
