pub mod Validity
pub mod Argument
pub mod Laws
