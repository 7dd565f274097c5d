pub mod Patterns
pub mod Texts
pub mod Names
pub mod Files
