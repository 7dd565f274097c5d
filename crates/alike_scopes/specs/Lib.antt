pub mod AlikeScopes
pub use Rattle.bound_names.specs as bound_names
pub use Rattle.bound_names.specs.typed_scopes as typed_scopes
pub use Rattle.bound_names.specs.st_names as st_names
