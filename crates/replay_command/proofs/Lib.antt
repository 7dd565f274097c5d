pub mod Refusals
pub mod RunLemmas
pub mod PlayLemmas
pub mod AnswerLemmas
pub mod Reporting
pub mod Once
