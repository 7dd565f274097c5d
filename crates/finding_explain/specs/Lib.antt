pub mod Notable
pub mod Explaining
