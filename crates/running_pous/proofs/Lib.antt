pub mod RunningLaws
pub mod StatedPous
pub mod StatedLemmas
pub mod SearchLemmas
