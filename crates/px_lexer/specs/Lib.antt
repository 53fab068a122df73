pub mod Bytes
pub mod Forms
pub mod Laws
pub mod Scan
pub mod Tokens
