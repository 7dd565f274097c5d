pub mod TypedComparisons
