pub use Rattle.whole_files.specs as whole_files
pub use Rattle.whole_files.specs.bound_names as bound_names
pub use Rattle.whole_files.specs.typed_scopes as typed_scopes
pub use Rattle.whole_files.specs.st_names as st_names
pub use Rattle.typed_cells.specs as typed_cells
