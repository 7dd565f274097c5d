pub mod Kept
pub mod Texts
pub mod Reading
pub mod KeptTexts
pub mod Stating
pub mod Refused
pub use Rattle.front_end.specs as front_end
