pub mod ArgumentCounts
pub mod FitLemmas
pub mod SameTypes
