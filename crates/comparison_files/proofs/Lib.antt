pub mod ReadTexts
pub mod Refusals
pub mod RefusalLemmas
pub mod Sizes
pub mod Once
mod Gates
