pub mod SideLemmas
pub mod HashLemmas
pub mod NumberLemmas
pub mod ValueLemmas
