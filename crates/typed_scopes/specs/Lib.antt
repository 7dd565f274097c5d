pub mod Types
pub mod Uses
pub mod Fitting
pub mod Charts
