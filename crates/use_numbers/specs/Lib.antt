pub mod Entries
pub mod UseNumbers
