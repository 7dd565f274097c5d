pub mod DeletionLemmas
pub mod HintLemmas
pub mod RoomLemmas
pub mod Standing
pub mod VersionLemmas
pub mod WalkLemmas
