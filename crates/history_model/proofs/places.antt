-- Lemmas on the live places of a channel. They go with specs/stage/Places.antt.
pub mod Lists
pub mod Layers
pub mod Commands
pub mod Limits
pub mod Histories
