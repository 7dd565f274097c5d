pub mod Scans
pub mod InRange
pub mod Among
pub mod Pairs
pub mod Runs
pub mod Candidates
pub mod Verdicts
pub mod Laws
pub mod VerdictLaws
pub use Rattle.meaning.specs as meaning
