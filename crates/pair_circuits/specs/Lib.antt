pub mod Views
pub mod LineShapes
