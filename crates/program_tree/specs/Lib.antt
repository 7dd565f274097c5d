pub mod Tree
pub mod View
pub mod Cells
pub mod Places
pub mod OperandTypes
pub mod ChartPlaces
pub use Rattle.plc_types.specs as plc_types
pub use Rattle.plc_types.specs.num_core as num_core
pub mod StatementItems
pub mod Leaving
