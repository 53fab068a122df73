pub mod Laws
pub mod Examples
pub mod ExampleLaws
pub mod PropertyLaws
