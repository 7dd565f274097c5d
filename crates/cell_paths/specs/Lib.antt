pub mod Paths
pub use Rattle.typed_cells.specs as typed_cells
