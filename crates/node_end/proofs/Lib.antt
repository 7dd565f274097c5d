pub mod TypedScans
