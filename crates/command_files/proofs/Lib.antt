pub mod Keeping
pub mod Reaching
pub mod Refusals
pub mod Once
pub use Rattle.front_end.proofs as front_end
