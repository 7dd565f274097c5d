pub mod Saved
pub mod Answering
pub mod Once
pub use Rattle.comparison_files.proofs as comparison_files
