pub mod StatedCells
pub use Rattle.typed_files.specs.whole_files
pub use Rattle.typed_files.specs.typed_cells as typed_cells
pub use Rattle.typed_files.specs.typed_scopes as typed_scopes
