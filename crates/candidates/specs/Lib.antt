pub mod ByPath
pub mod Places
pub mod PairView
pub mod Candidates
