pub mod RangeLemmas
pub mod SetLemmas
