pub mod Area
pub mod Mixer
pub mod Keyword
pub mod Options
