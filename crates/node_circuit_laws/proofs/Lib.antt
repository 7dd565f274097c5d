pub mod Conversions
pub mod Widths
pub mod RowValues
pub mod Words
pub mod NodeValues
pub mod NodeOrders
pub mod States
