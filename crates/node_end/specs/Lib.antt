pub mod NodeTexts
pub use Rattle.flat_end.specs.FlatTexts
