pub mod PlainSymbols
pub mod NoPoints
pub mod OnlyCells
pub mod Targets
pub mod AssignedStatements
pub mod WrittenStatements
pub mod Accepted
