pub mod Products
pub mod Quotients
pub mod Wrapped
pub mod Ranges
pub mod Multiples
