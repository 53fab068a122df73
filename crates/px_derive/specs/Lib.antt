pub mod Lines
pub mod Spelling
pub mod Spellable
pub mod Runs
pub mod Readers
pub mod Reading
pub mod Gives
pub mod Laws
