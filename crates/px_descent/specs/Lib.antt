pub mod Around
pub mod Kept
pub mod Largest
pub mod Ends
pub mod Searches
pub mod Checked
pub mod Laws
