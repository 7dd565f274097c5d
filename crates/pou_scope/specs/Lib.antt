pub mod NamesView
pub mod SlottedView
pub mod InFileView
pub mod AllSeen
pub mod NoUses
