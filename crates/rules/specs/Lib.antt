pub mod Rules
pub mod Faults
pub mod Judgements
pub mod Outcomes
