pub mod Agreeing
pub mod Deciding
