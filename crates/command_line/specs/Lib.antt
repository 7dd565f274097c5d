pub mod Subcommands
pub mod Grammar
pub mod Asked
pub mod Plain
pub mod Counts
