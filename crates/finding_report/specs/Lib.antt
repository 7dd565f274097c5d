pub mod Names
pub mod Noted
pub mod Reports
pub mod Views
