pub mod SameUses
pub mod SameCalls
pub mod StatedScans
pub mod StatedVerdicts
