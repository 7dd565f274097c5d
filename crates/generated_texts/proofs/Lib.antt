pub mod NameLemmas
pub mod SaveLemmas
pub mod ThreeTexts
