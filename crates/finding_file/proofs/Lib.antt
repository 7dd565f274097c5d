pub mod AheadLemmas
pub mod AnswerLemmas
pub mod WindowLemmas
pub mod PieceLemmas
pub mod ReaderLemmas
pub mod WritingLemmas
pub mod StartLemmas
