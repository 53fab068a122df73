pub mod FieldLemmas
pub mod InstanceSizes
pub mod Largest
pub mod Replacing
pub mod RoomLemmas
