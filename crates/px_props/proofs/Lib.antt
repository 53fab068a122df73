pub mod Answering
pub mod BuiltIns
pub mod ClauseFacts
pub mod Closings
pub mod Numbers
pub mod Own
pub mod WrittenSets
