pub mod Followed
pub mod Rounds
pub mod Explained
pub mod Work
pub mod Server
pub mod inner
