mod LongLemmas
mod LargeLemmas
pub mod ToldLemmas
mod ChartRoom
