mod SpelledLemmas
pub mod ToldLemmas
mod UnknownKinds
