pub mod PartLemmas
pub mod EndPasses
pub mod EndStands
