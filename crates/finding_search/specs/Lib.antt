pub mod Desks
pub mod Numbered
pub mod Passing
pub mod Shown
pub mod Writes
pub mod Places
pub mod Guesses
