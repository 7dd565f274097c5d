pub mod Nodes
pub mod NodeTypes
pub mod Words
pub mod Stores
pub mod Scans
pub mod TypedFlats
pub mod NodeLaws
