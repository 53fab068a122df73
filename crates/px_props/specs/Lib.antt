pub mod Answered
pub mod Sets
pub mod Signatures
pub mod Table
