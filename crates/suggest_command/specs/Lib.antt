pub mod Suggested
