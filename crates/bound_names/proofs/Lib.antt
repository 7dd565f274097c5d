pub mod Roles
pub mod NameParts
pub mod Within
pub mod CalledFunctions
pub mod SingleNames
pub mod UsedBlocks
pub use Rattle.typed_scopes.proofs as typed_scopes
pub use Rattle.st_names.proofs as st_names
