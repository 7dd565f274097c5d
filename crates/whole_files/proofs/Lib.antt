pub mod Told
pub mod KnownTypes
pub mod ToldTrees
pub mod ToldStatements
pub mod Formed
pub mod WholeDomains
pub mod WholeVariables
pub mod WholeMembers
pub mod WholeBodies
pub mod ApartControls
pub mod WholeLaw
pub mod ChartNames
pub use Rattle.alike_scopes.proofs.bound_names as bound_names
pub use Rattle.alike_scopes.proofs.typed_scopes as typed_scopes
pub use Rattle.alike_scopes.proofs.st_names as st_names
