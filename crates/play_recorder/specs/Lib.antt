pub mod Film
pub mod Finder
pub mod Recording
pub mod inner
