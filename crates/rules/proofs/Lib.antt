pub mod Refusals
pub mod FirstOnce
pub mod Outcomes
