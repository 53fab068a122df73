pub mod Found
pub mod Rests
pub mod Rules
pub mod Loops
pub mod Layers
