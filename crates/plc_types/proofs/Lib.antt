pub mod Widths
pub mod InRange
pub mod TypeRanges
pub mod SameTypes
