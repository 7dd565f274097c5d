pub mod Names
pub mod Clauses
pub use Rattle.cell_paths.specs as cell_paths
