pub mod LineLemmas
pub mod RefusalLemmas
