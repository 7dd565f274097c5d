pub mod Uses
pub mod Bodies
pub mod Running
pub mod Stated
