pub mod NamedTexts
pub mod Loops
