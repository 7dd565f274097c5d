pub mod MoveLemmas
pub mod RunLemmas
pub mod EndLemmas
pub mod Judgements
pub mod SpentLemmas
pub mod PrefixLemmas
