pub mod Request
pub mod Line
pub mod Session
