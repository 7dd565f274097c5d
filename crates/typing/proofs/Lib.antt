pub mod PairLemmas
pub mod JudgedItems
pub mod TypedItems
pub mod Exits
