pub mod FieldLemmas
pub mod Opened
pub mod PartSizes
pub mod Results
pub mod Shallow
pub mod StepLemmas
pub mod TurnLemmas
