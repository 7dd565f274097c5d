pub mod Stages
pub mod Numbers
pub mod Rooms
pub mod Endings
pub mod Readings
pub mod StepMoves
pub mod Files
