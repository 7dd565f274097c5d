pub mod PutLemmas
pub mod AnswerLemmas
pub mod AlikeLemmas
pub mod EndLemmas
