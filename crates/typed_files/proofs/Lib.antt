pub mod ProgramPlaces
pub mod SeenNames
pub mod SoundBodies
pub mod TypedFiles
pub use Rattle.whole_files.proofs as whole_files
pub use Rattle.whole_files.proofs.bound_names as bound_names
pub use Rattle.whole_files.proofs.typed_scopes as typed_scopes
pub use Rattle.whole_files.proofs.st_names as st_names
pub use Rattle.typed_cells.proofs as typed_cells
