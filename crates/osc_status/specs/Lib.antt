pub mod Texts
pub mod Message
pub mod Written
pub mod Status
pub mod Worked
pub mod inner
