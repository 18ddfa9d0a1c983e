pub mod Sounds
pub mod Worked
pub mod inner
