pub mod Sizes
pub mod Cases
pub mod Loops
pub mod Callees
pub mod Leaving
pub mod Firing
pub mod InTurn
