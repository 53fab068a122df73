pub mod States
pub mod Beginnings
pub mod Refusals
pub mod Ends
pub mod Standings
pub mod Replaying
pub mod Keeping
pub mod Laws
