pub mod Uses
pub mod Places
pub mod Variables
pub mod Premises
pub mod Bodies
pub mod AtNames
