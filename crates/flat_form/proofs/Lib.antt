pub mod FrameLemmas
pub mod IdleLemmas
pub mod IdleTables
pub mod Owed
pub mod MayRun
pub mod OperandLemmas
