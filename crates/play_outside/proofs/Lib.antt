pub mod Counting
mod Finding
pub mod Gathering
pub mod Following
mod Giving
pub mod Parts
pub mod Reading
pub mod Sending
pub mod Taking
