pub mod Arenas
pub mod Watching
pub mod Visits
pub mod Propagations
