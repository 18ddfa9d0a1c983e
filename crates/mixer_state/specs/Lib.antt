pub mod Course
pub mod Ranges
pub mod Entries
pub mod Found
pub mod Kept
pub mod Mixer
pub mod Past
pub mod inner
