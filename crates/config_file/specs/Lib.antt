pub mod Key
pub mod Section
pub mod Configuration
pub mod Reading
pub mod Worked
pub mod inner
