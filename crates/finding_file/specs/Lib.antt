pub mod Ahead
pub mod Answering
pub mod Causes
pub mod Places
pub mod Raised
pub mod Reading
pub mod Searching
pub mod Writing
