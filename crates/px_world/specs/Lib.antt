pub mod Faults
pub mod Known
pub mod Reads
pub mod Texts
pub mod MemoryFiles
pub mod MemorySink
pub mod Host
