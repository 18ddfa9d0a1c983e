pub mod inner
pub mod Worked
