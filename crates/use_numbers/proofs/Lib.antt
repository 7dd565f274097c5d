pub mod EntryLemmas
pub mod UseNumbersLemmas
