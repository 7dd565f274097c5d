pub mod WholeScopes
pub mod WholePous
pub use Rattle.alike_scopes.specs.bound_names as bound_names
pub use Rattle.alike_scopes.specs.typed_scopes as typed_scopes
pub use Rattle.alike_scopes.specs.st_names as st_names
