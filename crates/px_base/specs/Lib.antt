pub mod Largest
pub mod Distinct
pub mod NameForms
pub mod Lawful
pub mod PropSets
pub mod Fitting
