pub mod Bound
pub mod Bindings
