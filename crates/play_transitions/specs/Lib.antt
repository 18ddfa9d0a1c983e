pub mod Column
pub mod Runs
pub mod inner
