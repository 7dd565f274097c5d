pub mod Inside
pub mod Rising
pub mod Few
pub mod Gates
pub mod Turns
pub mod Sizes
pub mod Meanings
