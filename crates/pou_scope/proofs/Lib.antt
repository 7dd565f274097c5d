pub mod NoUsesLemmas
pub mod JudgedLemmas
pub mod SeenLemmas
