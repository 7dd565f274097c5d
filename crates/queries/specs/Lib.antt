pub mod Comparisons
pub mod Ranges
pub mod Settings
pub mod Sets
pub mod Questions
pub mod Meaning
