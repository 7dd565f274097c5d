pub mod Leaving
pub mod Refusals
pub mod TypedScopes
