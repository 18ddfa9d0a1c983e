pub mod BatchState
pub mod Meaning
pub mod Following
