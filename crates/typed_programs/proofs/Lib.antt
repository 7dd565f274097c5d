pub mod TypedItems
