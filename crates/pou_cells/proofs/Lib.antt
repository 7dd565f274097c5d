pub mod ToldLemmas
pub mod TableLemmas
pub mod PlacedLemmas
pub mod SizeLemmas
pub mod RoomLemmas
