pub mod Laws
pub mod Findings
pub mod Answers
