pub mod PlacedLemmas
pub mod NameLemmas
pub mod CandidateLemmas
pub mod PairLemmas
pub mod ExclusiveLemmas
