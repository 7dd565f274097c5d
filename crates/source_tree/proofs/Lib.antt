pub mod Branches
pub mod StatementInduction
pub mod EveryItem
pub mod LevelledItems
