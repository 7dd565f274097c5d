pub mod Readings
pub use Rattle.stated_cells.specs.StatedCells
