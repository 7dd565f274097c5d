pub mod Ranks
pub mod Spans
pub mod Lists
pub mod Settling
pub mod Lasting
pub mod Growth
pub mod Turns
pub mod Weights
