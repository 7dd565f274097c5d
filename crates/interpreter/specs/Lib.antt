pub mod Outcomes
pub mod Scopes
pub mod Turning
