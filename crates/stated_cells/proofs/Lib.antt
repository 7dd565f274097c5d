pub mod Lasts
pub mod OwnTypes
pub mod Walks
pub mod Cells
pub mod ChartNames
pub mod Flags
pub mod StatedCells
pub use Rattle.typed_files.proofs.whole_files
pub use Rattle.typed_files.proofs.typed_cells as typed_cells
pub use Rattle.typed_files.proofs.typed_scopes as typed_scopes
