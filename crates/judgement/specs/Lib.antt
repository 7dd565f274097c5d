pub mod Steps
pub mod Places
pub mod Tests
pub mod Findings
pub mod Shown
pub mod Known
