pub mod Runs
pub mod ValueGrammar
pub mod Names
pub mod Wanting
pub mod Schedules
pub mod Fields
pub mod ValueLaws
pub mod ScheduleLaws
