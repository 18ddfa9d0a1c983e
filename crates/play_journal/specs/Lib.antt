pub mod Journal
pub mod Runs
pub mod Reading
pub mod Kept
pub mod Room
pub mod Places
pub mod Worked
pub mod inner
