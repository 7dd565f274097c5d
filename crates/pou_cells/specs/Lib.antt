pub mod PouTables
pub mod PouScopes
pub mod Placing
pub mod ToldPlaces
pub mod ToldMembers
