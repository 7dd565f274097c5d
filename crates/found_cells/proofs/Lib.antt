pub mod Apart
pub mod Paths
pub mod Found
pub mod ClauseNames
pub use Rattle.cell_paths.proofs as cell_paths
