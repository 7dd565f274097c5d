pub mod Reports
pub use Rattle.comparison_files.specs as comparison_files
