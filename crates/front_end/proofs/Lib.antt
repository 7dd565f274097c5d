pub mod Passes
pub mod OneReading
pub mod OneProgram
pub mod OnePou
pub mod TypedTexts
