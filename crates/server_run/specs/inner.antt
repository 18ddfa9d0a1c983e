pub mod Workers
pub mod Threads
