pub mod Spelling
pub mod Form
pub mod Numbers
pub mod Reading
