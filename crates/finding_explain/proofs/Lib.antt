pub mod LeadLemmas
pub mod NoteLemmas
pub mod ExplainLemmas
