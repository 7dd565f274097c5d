pub mod BoundNames
pub use Rattle.typed_scopes.specs as typed_scopes
pub use Rattle.st_names.specs as st_names
