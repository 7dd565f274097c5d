pub mod Codes
pub mod Reports
pub mod Alike
pub mod Puts
pub mod Answers
pub mod Ends
