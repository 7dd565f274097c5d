pub mod DigitLemmas
pub mod FeedLemmas
pub mod LineLemmas
pub mod NumberLemmas
pub mod ReadLemmas
pub mod RowLemmas
pub mod SpellingLemmas
pub mod ShowLemmas
