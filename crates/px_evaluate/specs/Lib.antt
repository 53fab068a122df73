pub mod Nesting
pub mod Evaluating
pub mod Finding
