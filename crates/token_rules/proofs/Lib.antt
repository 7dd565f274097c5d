pub mod FirstFaults
pub mod FirstPlaces
pub mod SameTokens
