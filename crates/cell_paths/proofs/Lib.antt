pub mod Occurrences
pub mod Blocks
pub mod Lengths
pub mod Walks
pub mod Owners
pub mod Located
pub mod Cells
pub use Rattle.typed_cells.proofs as typed_cells
