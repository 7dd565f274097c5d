pub mod Clean
pub mod WholeDeclarations
pub mod WholeVariables
pub mod WholePous
pub mod WholeNames
pub mod PouUses
pub mod Kept
