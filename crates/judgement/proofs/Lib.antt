pub mod LogLemmas
pub mod ThinLemmas
pub mod WalkLemmas
pub mod StartLemmas
pub mod RowLemmas
pub mod StepLemmas
pub mod Soundness
