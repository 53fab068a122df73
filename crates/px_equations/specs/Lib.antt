pub mod Listed
pub mod Open
pub mod Filled
pub mod Index
