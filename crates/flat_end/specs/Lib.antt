pub mod FlatTexts
pub use Rattle.front_end.specs.Texts
