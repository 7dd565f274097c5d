pub mod Uses
pub mod OrderLaws
pub mod Marks
pub mod Users
pub mod Parts
