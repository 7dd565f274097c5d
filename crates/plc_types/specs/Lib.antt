pub mod Types
pub mod DataTypes
pub mod Enumerations
pub use Rattle.num_core.specs as num_core
