pub mod AlikeNames
pub mod AlikeTrees
pub mod AlikeConstants
pub mod AlikeControls
pub mod AlikeLabels
pub mod AlikeStatements
pub mod CellOrder
pub mod PlacedScopes
pub use Rattle.bound_names.proofs as bound_names
pub use Rattle.bound_names.proofs.typed_scopes as typed_scopes
pub use Rattle.bound_names.proofs.st_names as st_names
