pub mod StatementInduction
pub mod EveryItem
