pub mod SeenLemmas
pub mod StepLemmas
pub mod ArrowLemmas
pub mod ExitLemmas
