pub mod StandardBlocks
pub mod Texts
