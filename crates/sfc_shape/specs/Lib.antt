pub mod Shapes
pub mod ShapeView
pub mod PartsView
