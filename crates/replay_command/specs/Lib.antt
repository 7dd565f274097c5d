pub mod Accepting
pub mod Accepted
pub mod Lines
pub mod Outcomes
pub mod Reports
pub mod Played
