pub mod Lines
pub mod Held
pub mod Suggested
pub use Rattle.command_files.specs.Stating
