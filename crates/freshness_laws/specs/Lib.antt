pub mod FreshClauses
pub mod Deletions
