pub mod RowLemmas
pub mod DuoLemmas
pub mod Scanned
