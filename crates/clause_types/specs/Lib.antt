pub mod PairedNumbers
pub mod PairedTypes
pub mod Pairs
pub mod PathHashes
pub mod PlacesByPath
pub mod Sides
