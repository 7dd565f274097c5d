pub mod Behind
pub mod Since
pub mod Shown
pub use Rattle.verify_command.proofs as verify_command
