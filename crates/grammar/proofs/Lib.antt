pub mod Turns
pub mod Ahead
pub mod Links
pub mod Arguments
pub mod StatementLists
