pub mod NameLemmas
pub mod NumberLemmas
pub mod PartLemmas
pub mod FloatLemmas
