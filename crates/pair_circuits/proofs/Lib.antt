pub mod Front
pub mod Turns
pub mod Lines
pub mod Composed
pub mod BreakTurns
pub mod Inside
pub mod SameParts
