pub mod Bodies
pub mod Spelled
pub mod Told
pub mod ToldView
