pub mod Made
pub mod Lines
pub mod Reports
pub use Rattle.verify_command.specs as verify_command
